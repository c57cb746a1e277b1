-- The records of a table.
use Rattle.std.specs.Prelude.{ℕ, List, take}
use Rattle.tables.specs.declared.table.Table.{Table}

-- the records entered so far, in the order of their numbers
abbrev pub entered : {T : Type 0} {N : ℕ} → Table T N → List T
entered t = take t.count t.places
