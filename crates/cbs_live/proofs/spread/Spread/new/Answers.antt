use Rattle.std.proofs.Common.{refl}
use Rattle.std.proofs.lemmas.List.{get_or-replicate}
use Rattle.cbs_live.proofs.spread.Spread.new.Goals as goal

pub returns : goal.returns
returns c = record { count = refl; total = refl; least = refl; greatest = refl; powers = λ k small. get_or-replicate 65 k 0 0 small }
