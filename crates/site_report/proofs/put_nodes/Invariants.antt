use Rattle.std.proofs.Common.{◌≡◌, length}
use Rattle.site_form.specs.Printing.{node_line}
use Rattle.site_report.proofs.Lines.{Lining}
use Rattle.site_report.proofs.put_nodes.Given as goal

abbrev pub invariant-loop-i : goal.invariant-loop-i
invariant-loop-i l = record {
  lines : Lining (node_line l.map) (length l.map) l.initial.page.out.now l.initial.page.at l.page.out.now l.i l.page.at;
  lent : l.page.out.ghost_name ≡ l.initial.page.out.ghost_name;
}
