use native.Mathlib.Omega.{arith}
use Rattle.std.proofs.lemmas.Option.{MatchOption-at_some}
use Rattle.roster_values.proofs.Bytes.{word-is}
use Rattle.roster_values.proofs.word_at.Goals as goal

pub returns : goal.returns
returns c =
    let part = MatchOption-at_some _ _ _ c.unwrap-bytes.ensures c.as_array.ensures.cases in
    word-is c.args.roster.now _ c.args.i _ _ c.requires (λ k. omega (arith, c.type_inv.roster k)) part.same (omega arith) c.from_le_bytes.ensures
