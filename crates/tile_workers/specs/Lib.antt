pub mod Lists
pub mod Tickets
pub mod TicketLaws
pub mod Rule
pub mod Seats
pub mod Phases
pub mod Shifts
pub mod Forks
