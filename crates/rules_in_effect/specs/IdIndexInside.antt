-- How the code keeps handles by ids.
use Rattle.std.specs.Prelude.{◌-◌, vec_len, vec_capacity}
use Rattle.rules_in_effect.specs.declared.index.IdIndex.TheInside.{Inside}
use Rattle.rules_in_effect.specs.IdIndex.{IdIndexView}

abbrev pub view_of : Inside → IdIndexView
view_of index = record {
  places = index.places.items;
  waiting = index.waiting.items;
  room = vec_capacity index.waiting - vec_len index.waiting;
}
