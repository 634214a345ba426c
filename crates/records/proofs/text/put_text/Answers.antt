use Rattle.std.proofs.Common.{ℕ, List, [], ◌∷◌, ◌++◌, get_or, take, vec_items, ap, ◌∙◌, append_assoc, arith}
use Rattle.std.proofs.lemmas.List.{take_more, take_all}
use Rattle.records.proofs.Appending.{added}
use Rattle.records.proofs.text.put_text.Goals as goal

pub loop-byte-preserved : goal.loop-byte-preserved
loop-byte-preserved c =
    let t = take_more c.args.text.now c.loop-byte.byte-index 0 c.loop-byte-test.true in
    let a =
    append_assoc (vec_items c.args.out.now) (take c.loop-byte.byte-index c.args.text.now)
    (get_or c.args.text.now c.loop-byte.byte-index 0 ∷ [])
    in
    (cc, omega arith, omega arith)

pub returns : goal.returns
returns c =
    added _ _ _
    (c.loop-byte.invariant.0 ∙ ap (λ (l : List ℕ). vec_items c.args.out.now ++ l) (take_all _ _ c.loop-byte-test.false))
    c.loop-byte.invariant.2
