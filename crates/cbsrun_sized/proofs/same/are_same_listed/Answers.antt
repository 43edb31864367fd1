use Rattle.std.proofs.Common.{◌≡◌, ◌<◌, ℕ, List, [], get_or, length, map, Vec, ap, sym, ◌∙◌, refl, arith, below_more}
use Rattle.std.specs.declared.alloc.Global.{Global}
use Rattle.std.proofs.lemmas.List.{ext_get_or, get_or-map, length-map}
use Rattle.cbsrun_sized.proofs.same.are_same_listed.Goals as goal

abbrev items_of : Vec ℕ Global → List ℕ
items_of v = v.items

pub loop-i-preserved : goal.loop-i-preserved
loop-i-preserved c =
    let i = c.loop-i.i in
    let own = c.args.own.now in
    let others = c.args.others.now in
    let a = c.index-own-i.result in
    let b = c.index-others-i.result in
    let here : i < length own = omega arith in
    let there : i < length others = let count = c.loop-i.invariant.count in omega arith in
    let same_items : a.items ≡ b.items = sym c.deref.ensures.value ∙ (c.if-not-are_same_ticks.ensures refl ∙ c.deref-in-loop-i.ensures.value) in
    let own_at : get_or (map items_of own) i [] ≡ a.items = get_or-map items_of own i a [] here ∙ sym (ap items_of c.index-own-i.is) in
    let others_at : get_or (map items_of others) i [] ≡ b.items = get_or-map items_of others i b [] there ∙ sym (ap items_of c.index-others-i.is) in
    record {
      count = c.loop-i.invariant.count;
      same = below_more _ _ c.loop-i.invariant.same (own_at ∙ (same_items ∙ sym others_at));
    }

pub returns : goal.returns
returns c = λ is.
    let stop = c.loop-i-test.false in
    let same = c.loop-i.invariant in
    let own = map items_of c.args.own.now in
    let others = map items_of c.args.others.now in
    let n = length-map c.args.own.now items_of in
    let count : length own ≡ length others = rw (length-map, length-map) same.count in
    ext_get_or [] own others count (λ k lt. same.same k (omega arith))
