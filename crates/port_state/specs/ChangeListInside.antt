-- How the code keeps a list of changes.
use Rattle.std.specs.Prelude.{◌-◌, vec_len, vec_capacity, All}
use Rattle.port_state.specs.declared.change_list.ChangeList.TheInside.{Inside}
use Rattle.port_state.specs.ChangeList.{ChangesView}
use Rattle.port_state.specs.Changes.{HasFewActions}

abbrev pub changes_kept : Inside → ChangesView
changes_kept c = record { list = c.items.items; room = vec_capacity c.items - vec_len c.items }

-- no rule among them has more than 16 actions
abbrev pub HaveFew : Inside → Type 0
HaveFew c = All HasFewActions c.items.items
