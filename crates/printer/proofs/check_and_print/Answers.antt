use mathlib.Core.Path.{sym, ◌∙◌}
use Rattle.table_printing.proofs.Reports.{shows}
use Rattle.table_printing.proofs.Parts.{site-small, site-large, site-words, site-codes, site-checked, is-checked}
use Rattle.printer.proofs.check_and_print.Goals as goal

pub returns-then-size_wrong : goal.returns-then-size_wrong
returns-then-size_wrong c = shows _ _ _ (site-small _ _ _ c.wide-n.ensures _ _ _ (sym c.size_wrong.ensures ∙ c.if-size_wrong.true)) _ _
    c.refuse.ensures

pub returns-then-n-gt-LARGEST_PRINTED : goal.returns-then-n-gt-LARGEST_PRINTED
returns-then-n-gt-LARGEST_PRINTED c = shows _ _ _ (site-large _ _ _ c.wide-n.ensures _ _ _ c.if-n-gt-LARGEST_PRINTED.true) _ _ c.refuse-then-n-gt-LARGEST_PRINTED.ensures

pub returns-then-words_wrong : goal.returns-then-words_wrong
returns-then-words_wrong c = shows _ _ _ (site-words _ _ _ c.wide-n.ensures _ _ _ (sym c.size_wrong.ensures ∙ c.if-size_wrong.false) c.if-n-gt-LARGEST_PRINTED.false
    (sym c.words_wrong.ensures ∙ c.if-words_wrong.true)) _ _ c.refuse-then-words_wrong.ensures

pub returns-then-codes_wrong : goal.returns-then-codes_wrong
returns-then-codes_wrong c = shows _ _ _ (site-codes _ _ _ c.wide-n.ensures _ _ _ (sym c.size_wrong.ensures ∙ c.if-size_wrong.false) c.if-n-gt-LARGEST_PRINTED.false
    (sym c.words_wrong.ensures ∙ c.if-words_wrong.false) (sym c.codes_wrong.ensures ∙ c.if-codes_wrong.true)) _ _
    c.refuse-then-codes_wrong.ensures

pub print_checked_table-requires : goal.print_checked_table-requires
print_checked_table-requires c = (
  c.requires.0,
  is-checked _ c.args.site.now.size _ c.wide-n.ensures _ c.args.site.now.queries c.args.site.now.asks
      (sym c.size_wrong.ensures ∙ c.if-size_wrong.false) c.if-n-gt-LARGEST_PRINTED.false (sym c.words_wrong.ensures ∙ c.if-words_wrong.false)
      (sym c.codes_wrong.ensures ∙ c.if-codes_wrong.false) c.requires.1 c.requires.2,
)

pub returns : goal.returns
returns c = shows _ _ _ (site-checked _ _ _ c.wide-n.ensures _ _ _ (sym c.size_wrong.ensures ∙ c.if-size_wrong.false) c.if-n-gt-LARGEST_PRINTED.false
    (sym c.words_wrong.ensures ∙ c.if-words_wrong.false) (sym c.codes_wrong.ensures ∙ c.if-codes_wrong.false)) _ _
    c.print_checked_table.ensures
