use Rattle.std.proofs.Common.{flat_map}
use Rattle.cbsrun_refusal_texts.specs.Pages.{Appends, printable_character}
use Rattle.cbsrun_refusal_texts.proofs.page.Page.push_printable.Given as goal

abbrev pub invariant-loop-character : goal.invariant-loop-character
invariant-loop-character l = Appends l.initial.self l.self (flat_map printable_character l.yielded)
