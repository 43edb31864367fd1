use Rattle.std.proofs.Common.{◌≡◌, ℕ, ◌+◌, ◌++◌, [], ◌∷◌, map, arith, sym, ◌∙◌, ap}
use Rattle.std.specs.Int.{div_ceil}
use Rattle.std.specs.List.{range_with_len}
use Rattle.std.proofs.lemmas.List.{append_assoc}
use Rattle.std.proofs.lemmas.List.FromFn.{map-range_with_len_more}
use Rattle.cbs_guarantee.specs.Sources.{ticks_of}
use Rattle.cbsrun_proposals.specs.Proposals.{most_parts}
use Rattle.cbsrun_proposals.proofs.proposal.with_source.Goals as goal

pub loop-part-preserved : goal.loop-part-preserved
loop-part-preserved c = λ looked h.
    let f : ℕ → ℕ = λ k. div_ceil (ticks_of c.args.source) (k + 1) in
    let n = c.loop-part.part in
    let same : c.div_ceil.result ≡ f n = rw (c.from.ensures, c.from-2.ensures) at c.div_ceil.ensures in
    let more = c.with_budget-best.ensures (looked ++ map f (range_with_len 0 n)) (c.loop-part.invariant looked h) in
    let next : map f (range_with_len 0 (n + 1)) ≡ map f (range_with_len 0 n) ++ f n ∷ [] = map-range_with_len_more f 0 n n (omega arith) in
    let all : looked ++ map f (range_with_len 0 (n + 1)) ≡ (looked ++ map f (range_with_len 0 n)) ++ f n ∷ [] =
    ap (λ ys. looked ++ ys) next ∙ sym (append_assoc looked (map f (range_with_len 0 n)) (f n ∷ [])) in
    rw all (rw same at more)

pub returns : goal.returns
returns c = λ looked h.
    let same : c.loop-part.part ≡ most_parts = omega arith in
    let r = c.loop-part.invariant looked h in
    rw same at r
