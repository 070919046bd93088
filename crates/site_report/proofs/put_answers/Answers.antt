use Rattle.std.proofs.Common.{refl, ◌∙◌}
use Rattle.site_report.proofs.Lines.{lines_start, room-line, lines_step, lines_end, room_as, put_as, answers_are}
use Rattle.site_report.proofs.put_answers.Goals as goal

pub loop-i-init : goal.loop-i-init
loop-i-init c = record { lines = lines_start _ _ _ _; lent = refl }

pub put_answer-requires : goal.put_answer-requires
put_answer-requires c = room-line _ _ _ _ _ _ _ c.loop-i.invariant.lines c.loop-i-test.true (room_as _ (answers_are _ _) c.requires.1)

pub loop-i-preserved : goal.loop-i-preserved
loop-i-preserved c = record {
  lines = lines_step _ _ _ _ _ _ _ c.loop-i.invariant.lines c.loop-i-test.true _ _ c.put_answer.ensures.put;
  lent = c.put_answer.ensures.lent ∙ c.loop-i.invariant.lent;
}

pub returns : goal.returns
returns c = record {
  put = put_as _ (answers_are _ _) _ _ _ (lines_end _ _ _ _ _ _ _ c.loop-i.invariant.lines c.loop-i-test.false);
  lent = c.loop-i.invariant.lent;
}
