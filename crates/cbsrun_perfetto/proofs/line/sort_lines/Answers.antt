use Rattle.std.proofs.Common.{rules}
use Rattle.std.proofs.lemmas.List.Sorted.{answers_always}
use Rattle.std.proofs.lemmas.Result.{on_ok_weaker}
use Rattle.cbsrun_perfetto.specs.Traces.{tick_of}
use Rattle.cbsrun_perfetto.proofs.line.sort_lines.Goals as goal

pub returns-clause-rising : goal.returns-clause-rising
returns-clause-rising c =
    on_ok_weaker c.sort_by_key.result (λ by. by tick_of (answers_always _ _ _ (λ f a r g called. search rules))) c.sort_by_key.ensures.sorted

pub returns-clause-stable : goal.returns-clause-stable
returns-clause-stable c = c.sort_by_key.ensures.stable tick_of (answers_always _ _ _ (λ f a r g called. search rules))
