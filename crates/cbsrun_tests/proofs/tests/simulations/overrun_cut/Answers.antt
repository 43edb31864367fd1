use Rattle.std.proofs.Common.{[], ◌∷◌}
use Rattle.std.proofs.lemmas.List.Elements.{All-cons, All-nil}
use Rattle.cbsrun_simulate.specs.Drawing.{IsLawful}
use Rattle.cbsrun_tests.proofs.tests.simulations.overrun_cut.Goals as goal

pub shown-moments-requires-clause-lawful : goal.shown-moments-requires-clause-lawful
shown-moments-requires-clause-lawful g c =
    All-cons IsLawful c.source.result (c.source-2.result ∷ []) c.source.ensures (All-cons IsLawful c.source-2.result [] c.source-2.ensures (All-nil IsLawful))
