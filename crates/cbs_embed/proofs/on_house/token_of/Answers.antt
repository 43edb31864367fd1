use Rattle.std.proofs.Common.{◌∙◌, ap}
use Rattle.std.specs.Option.{unwrap_or}
use Rattle.cbs_embed.proofs.Tokens.{names_first, names_done}
use Rattle.cbs_embed.proofs.on_house.token_of.Goals as goal

pub returns-in-Unit : goal.returns-in-Unit
returns-in-Unit c =
    rw c.in-Unit.is (names_first c.args.house.now c.in-Unit.server c.in-Unit.seq _ (rw c.in-Unit.is at c.requires)
    (c.unwrap_or.ensures ∙ ap (λ o. unwrap_or o 0) c.front_output.ensures))

pub returns-in-Done : goal.returns-in-Done
returns-in-Done c = rw c.in-Done.is (names_done c.args.house.now c.in-Done.done (rw c.in-Done.is at c.requires))
