use Rattle.std.proofs.Common.{◌≡◌, sym, ◌∙◌, ap}
use Rattle.std.proofs.lemmas.Result.{err_from_is_err_and}
use Rattle.model.specs.declared.Refusal.TheVariants.{Form}
use Rattle.site_tokens.specs.Steps.{step, place_step}
use Rattle.site_reader.proofs.Whole.{refused_as, read-no-site, read_not_ended, read-no-slots, read_all}
use Rattle.site_reader.proofs.Queries.{blank-queries}
use Rattle.site_reader.proofs.read_forms.Goals as goal

pub returns-in_err-size : goal.returns-in_err-size
returns-in_err-size c =
    let p = err_from_is_err_and c.from_residual.result c.from_residual.ensures.1 in
    let d = c.in_err-size.ensures.ok_part in
    let f : c.in_err-size.field-0.0 ≡ Form = refused_as _ d _ c.in_err-size.ensures.value in
    rw (p.1, p.2, f) (read-no-site _ _ (sym c.site_line.ensures ∙ ap step d))

pub returns-in_err-ok_or : goal.returns-in_err-ok_or
returns-in_err-ok_or c =
    let p = err_from_is_err_and c.from_residual-in_err-ok_or.result c.from_residual-in_err-ok_or.ensures.1 in
    let d = c.in_ok-size.ensures.ok_part in
    let e = c.in_err-ok_or.ensures.ok_part in
    let f : c.in_err-ok_or.field-0.0 ≡ Form = refused_as _ e _ c.in_err-ok_or.ensures.value in
    rw (p.1, p.2, f) (read_not_ended _ _ _ _ (sym c.site_line.ensures ∙ ap step d) c.some_words-words.result
    c.some_words-words.ensures _ c.triple_lines-lines.result c.triple_lines-lines.ensures c.ask_lines-asks.result _
    c.ask_lines-asks.ensures (sym c.text_end.ensures ∙ ap place_step e))

pub returns-then-n-lines : goal.returns-then-n-lines
returns-then-n-lines c = let d = c.in_ok-size.ensures.ok_part in let e = c.in_ok-ok_or.ensures.ok_part in read-no-slots _ _ _ _ (sym c.site_line.ensures ∙ ap step d) c.some_words-words.result
    c.some_words-words.ensures _ c.triple_lines-lines.result c.triple_lines-lines.ensures c.ask_lines-asks.result _
    c.ask_lines-asks.ensures
    _ _ (sym c.text_end.ensures ∙ ap place_step e) c.if-n-lines.true

pub returns : goal.returns
returns c = let d = c.in_ok-size.ensures.ok_part in let e = c.in_ok-ok_or.ensures.ok_part in read_all _ _ _ _ (sym c.site_line.ensures ∙ ap step d) c.some_words-words.result
    c.some_words-words.ensures _ c.triple_lines-lines.result c.triple_lines-lines.ensures c.ask_lines-asks.result _
    c.ask_lines-asks.ensures
    _ _ (sym c.text_end.ensures ∙ ap place_step e) c.if-n-lines.false _ c.clear.ensures

pub ask_lines-asks-requires : goal.ask_lines-asks-requires
ask_lines-asks-requires c = blank-queries _ c.blank_query-queries.ensures
