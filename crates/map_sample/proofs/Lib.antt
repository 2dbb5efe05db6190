mod LinePlaces
mod RowByRow
mod RowsOfTiles
