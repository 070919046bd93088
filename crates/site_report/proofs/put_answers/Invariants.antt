use Rattle.std.proofs.Common.{◌≡◌}
use Rattle.site_report.proofs.Lines.{Lining, line_at}
use Rattle.site_report.proofs.put_answers.Given as goal

abbrev pub invariant-loop-i : goal.invariant-loop-i
invariant-loop-i l = record {
  lines : Lining (line_at l.answers) l.count l.initial.page.out.now l.initial.page.at l.page.out.now l.i l.page.at;
  lent : l.page.out.ghost_name ≡ l.initial.page.out.ghost_name;
}
