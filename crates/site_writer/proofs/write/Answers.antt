use mathlib.Core.Path.{sym, ◌∙◌}
use Rattle.site_writer.proofs.Whole.{write_size, write_table, write_many, write_words, write_codes, room-written, write_full, write_all}
use Rattle.site_writer.proofs.write.Goals as goal

pub returns-then-size_wrong : goal.returns-then-size_wrong
returns-then-size_wrong c = write_size _ c.args.n c.args.table.now c.args.out.now (sym c.size_wrong.ensures ∙ c.if-size_wrong.true)

pub returns-then-length_wrong : goal.returns-then-length_wrong
returns-then-length_wrong c = write_table _ c.args.n c.args.table.now c.args.out.now (sym c.length_wrong.ensures ∙ c.if-length_wrong.true)

pub returns-then-table-gt-MOST_LINES : goal.returns-then-table-gt-MOST_LINES
returns-then-table-gt-MOST_LINES c = write_many _ c.args.n c.args.table.now c.args.out.now c.if-table-gt-MOST_LINES.true

pub returns-then-words_wrong : goal.returns-then-words_wrong
returns-then-words_wrong c = write_words _ c.args.n c.args.table.now c.args.out.now (sym c.size_wrong.ensures ∙ c.if-size_wrong.false)
    (sym c.length_wrong.ensures ∙ c.if-length_wrong.false) c.if-table-gt-MOST_LINES.false (sym c.words_wrong.ensures ∙ c.if-words_wrong.true)

pub returns-then-codes_wrong : goal.returns-then-codes_wrong
returns-then-codes_wrong c = write_codes _ c.args.n c.args.table.now c.args.out.now (sym c.size_wrong.ensures ∙ c.if-size_wrong.false)
    (sym c.length_wrong.ensures ∙ c.if-length_wrong.false) c.if-table-gt-MOST_LINES.false (sym c.words_wrong.ensures ∙ c.if-words_wrong.false)
    (sym c.codes_wrong.ensures ∙ c.if-codes_wrong.true)

pub put_text-count-requires : goal.put_text-count-requires
put_text-count-requires c = room-written _ c.args.n c.args.table.now c.args.out.now (sym c.size_wrong.ensures ∙ c.if-size_wrong.false)
    (sym c.length_wrong.ensures ∙ c.if-length_wrong.false) c.if-table-gt-MOST_LINES.false (sym c.words_wrong.ensures ∙ c.if-words_wrong.false)
    (sym c.codes_wrong.ensures ∙ c.if-codes_wrong.false)

pub returns-then-room-count : goal.returns-then-room-count
returns-then-room-count c = write_full _ c.args.n c.args.table.now c.args.out.now (sym c.size_wrong.ensures ∙ c.if-size_wrong.false)
    (sym c.length_wrong.ensures ∙ c.if-length_wrong.false) c.if-table-gt-MOST_LINES.false (sym c.words_wrong.ensures ∙ c.if-words_wrong.false)
    (sym c.codes_wrong.ensures ∙ c.if-codes_wrong.false) _ _ c.put_text-count.ensures c.if-room-count.true _ c.clear_from.ensures

pub returns : goal.returns
returns c = write_all _ c.args.n c.args.table.now c.args.out.now (sym c.size_wrong.ensures ∙ c.if-size_wrong.false)
    (sym c.length_wrong.ensures ∙ c.if-length_wrong.false) c.if-table-gt-MOST_LINES.false (sym c.words_wrong.ensures ∙ c.if-words_wrong.false)
    (sym c.codes_wrong.ensures ∙ c.if-codes_wrong.false) _ _ c.put_text-count.ensures c.if-room-count.false _ c.clear_from-2.ensures
