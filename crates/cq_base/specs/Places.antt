-- Places of a group.
use Rattle.std.specs.Prelude.{slice_index_or}
use Rattle.cq_base.specs.declared.group.Place.{Place}
use Rattle.cq_base.specs.declared.group.Group.{Group}

-- the first of them; a group that a listing gives has at least two
abbrev pub first_place : Group → Place
first_place group = slice_index_or group.places 0 (record { file = 0; at = 0 })
