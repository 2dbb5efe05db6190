-- After any list of events the tickets are right.
use Rattle.std.proofs.Common.{List, [], ◌∷◌, sym, subst}
use Rattle.tile_workers.specs.Tickets.{TicketState, Event, split, draw, join, Leads, LeadsAll, first_state}
use Rattle.tile_workers.specs.Rule.{IsDealt}
use Rattle.tile_workers.specs.TicketLaws.{EachStandsOnce}
use Rattle.tile_workers.proofs.Dealt.{split_dealt, draw_dealt, join_dealt, first_dealt, dealt_whole, dealt_once, dealt_above}

abbrev Dealt : TicketState → Type 0
Dealt s = IsDealt s.next s.seats

event_dealt : (s : TicketState) (e : Event) (t : TicketState) → Leads s e t → Dealt s → Dealt t
event_dealt s (split i) t l d = subst Dealt (sym l.3) (split_dealt s.next s.seats i l.0 d l.1 l.2)
event_dealt s (draw i) t l d = subst Dealt (sym l.3) (draw_dealt s.next s.seats i l.0 l.0.marked d l.1 l.2)
event_dealt s (join i j) t l d = subst Dealt (sym l.7) (join_dealt s.next s.seats i j l.0 l.1 d l.4 l.2 l.3 l.5)

pub events_dealt : (events : List Event) (s t : TicketState) → LeadsAll s events t → Dealt s → Dealt t
events_dealt [] s t l d = subst Dealt l d
events_dealt (e ∷ es) s t l d = events_dealt es l.0 t l.2 (event_dealt s e l.0 l.1 d)

pub right : (s : TicketState) → IsDealt s.next s.seats → EachStandsOnce s
right s d = record {
  shares = d.shares;
  each_once = λ x less. dealt_once s.next s.seats x d less;
  none_above = λ x i v above at. dealt_above s.next s.seats x i v d above at;
  ascends = d.ascends;
  whole = λ i v at every. dealt_whole s.next s.seats i v d at every;
}

pub tickets_right : (events : List Event) (s : TicketState) → LeadsAll first_state events s → EachStandsOnce s
tickets_right events s l = right s (events_dealt events first_state s l first_dealt)
