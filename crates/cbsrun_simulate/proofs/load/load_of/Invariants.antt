use Rattle.std.proofs.Common.{◌≡◌, ℕ, ◌++◌, map, Vec}
use Rattle.std.specs.declared.alloc.Global.{Global}
use Rattle.std.specs.Prelude.{drop}
use Rattle.cbsrun_simulate.specs.Drawing.{pending, released_by_all}
use Rattle.cbsrun_simulate.proofs.load.load_of.Given as goal

-- the sources so far release what the first terms say
abbrev pub invariant-loop-place : goal.invariant-loop-place
invariant-loop-place g l =
    let listed = map (λ (v : Vec ℕ Global). v.items) l.listed in
    map pending l.sources.items ++ released_by_all l.place (drop l.place l.terms) listed l.until l.seed ≡ released_by_all 0 l.terms listed l.until l.seed
