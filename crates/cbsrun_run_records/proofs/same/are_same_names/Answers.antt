use Rattle.std.proofs.Common.{◌≡◌, ◌∙◌, ◌<◌, [], ap, below_more, get_or, length, map, string_bytes, arith, refl, sym}
use Rattle.std.proofs.lemmas.List.{ext_get_or, get_or-map, length-map}
use Rattle.cbsrun_run_records.proofs.same.are_same_names.Goals as goal

pub loop-i-preserved : goal.loop-i-preserved
loop-i-preserved c =
    let i = c.loop-i.i in
    let own = c.args.own.now in
    let others = c.args.others.now in
    let a = c.index-own-i.result in
    let b = c.index-others-i.result in
    let here : i < length own = omega arith in
    let there : i < length others = let count = c.loop-i.invariant.count in omega arith in
    let same_bytes : string_bytes a ≡ string_bytes b = sym c.deref.ensures ∙ (c.if-not-is_same_name.ensures refl ∙ c.deref-in-loop-i.ensures) in
    let own_at : get_or (map string_bytes own) i [] ≡ string_bytes a = get_or-map string_bytes own i a [] here ∙ sym (ap string_bytes c.index-own-i.is) in
    let others_at : get_or (map string_bytes others) i [] ≡ string_bytes b =
    get_or-map string_bytes others i b [] there ∙ sym (ap string_bytes c.index-others-i.is) in
    record {
      count = c.loop-i.invariant.count;
      same = below_more _ _ c.loop-i.invariant.same (own_at ∙ (same_bytes ∙ sym others_at));
    }

pub returns : goal.returns
returns c = λ is.
    let stop = c.loop-i-test.false in
    let same = c.loop-i.invariant in
    let own = map string_bytes c.args.own.now in
    let others = map string_bytes c.args.others.now in
    let n = length-map c.args.own.now string_bytes in
    let count : length own ≡ length others = rw (length-map, length-map) same.count in
    ext_get_or [] own others count (λ k lt. same.same k (omega arith))
