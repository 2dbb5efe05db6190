-- The machine word that holds a value.
use mir.Syntax.{Width, w64}

abbrev pub value_width : Width
value_width = w64
