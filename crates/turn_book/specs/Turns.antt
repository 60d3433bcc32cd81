-- A turn, after a write to its value.
use Rattle.turn_book.specs.declared.turn.Turn.{Turn}

abbrev pub with_value : {M E F : Type 0} → Turn M E F → M → Turn M E F
with_value t value = record t { value = value }
