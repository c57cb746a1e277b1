use Rattle.std.proofs.Common.{◌≡◌, take, drop}
use Rattle.std.specs.List.{AllZip}
use Rattle.tables.proofs.keeping.change_all.Given as goal

abbrev pub invariant-loop-record : goal.invariant-loop-record
invariant-loop-record g l =
    (drop l.record-index l.records ≡ drop l.record-index l.initial.records)
    × AllZip (goal.F-post g l.rule) (take l.record-index l.initial.records) (take l.record-index l.records)
