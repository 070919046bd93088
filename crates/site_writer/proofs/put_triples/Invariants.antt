use Rattle.std.proofs.Common.{◌≡◌}
use Rattle.site_writer.proofs.Lines.{Lining}
use Rattle.site_writer.proofs.put_triples.Given as goal

abbrev pub invariant-loop-i : goal.invariant-loop-i
invariant-loop-i l = record {
  lines : Lining l.initial.page.out.now l.initial.page.at l.table l.page.out.now l.i l.page.at;
  lent : l.page.out.ghost_name ≡ l.initial.page.out.ghost_name;
}
