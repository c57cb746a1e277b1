use Rattle.tables.proofs.Changing.{holds, still_untouched, one_more}
use Rattle.tables.proofs.keeping.change_all.Goals as goal

pub rule-requires : goal.rule-requires
rule-requires g c =
    holds c.args.records.now c.loop-record.records c.loop-record.record-index c.loop-record.invariant.0 c.loop-record-test.true (goal.F-pre g c.args.rule) c.record-item.result c.requires

pub loop-record-preserved : goal.loop-record-preserved
loop-record-preserved g c = (
  still_untouched c.args.records.now c.loop-record.records c.loop-record.record-index c.loop-record.invariant.0 c.loop-record-test.true c.rule.result,
  one_more c.args.records.now c.loop-record.records c.loop-record.record-index c.loop-record.invariant.0 c.loop-record-test.true (goal.F-post g c.args.rule) c.record-item.result c.rule.result c.loop-record.invariant.1 c.rule.ensures,
)
