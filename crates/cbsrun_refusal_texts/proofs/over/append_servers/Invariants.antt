use Rattle.std.proofs.Common.{map, take}
use Rattle.toml.specs.View.{view}
use Rattle.cbsrun_refusal_texts.specs.Over.{servers_text}
use Rattle.cbsrun_refusal_texts.specs.Pages.{Appends}
use Rattle.cbsrun_refusal_texts.proofs.over.append_servers.Given as goal

abbrev pub invariant-loop-place : goal.invariant-loop-place
invariant-loop-place l = Appends l.initial.page l.page (servers_text (map view l.document.servers.now) (take l.place l.servers))
