use Rattle.std.proofs.Common.{map}
use Rattle.toml.specs.View.{view}
use Rattle.cbsrun_refusal_texts.specs.Pages.{AppendsA}
use Rattle.cbsrun_refusal_texts.proofs.Listed.{IsPartsSoFar}
use Rattle.cbsrun_refusal_texts.proofs.over.append_parts.Given as goal

abbrev pub invariant-loop-place : goal.invariant-loop-place
invariant-loop-place l = AppendsA (IsPartsSoFar (map view l.document.servers.now) l.parts l.place) l.fn.page l.page
