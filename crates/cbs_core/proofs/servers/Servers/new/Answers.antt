use Rattle.std.proofs.Common.{◌≡◌, ◌≤◌, ◌++◌, ◌∷◌, [], length, map, rules, sym, ◌∙◌, arith}
use Rattle.cbs_steps.specs.Faces.{new_face}
use Rattle.std.proofs.lemmas.Grind.{common_steps}
use Rattle.std.proofs.lemmas.Option.{slice_get-get_or}
use Rattle.cbs_rules.specs.declared.mode.Mode.TheVariants.{Soft}
use Rattle.cbs_steps.specs.Setups.{terms_of}
use Rattle.cbs_steps.proofs.Plans.{faces_more, faces_all, length-faces, length-terms}
use Rattle.cbs_core.proofs.ReadyServers.{lists_new}
use Rattle.cbs_core.proofs.Waiting.{keeps_new}
use Rattle.cbs_core.proofs.servers.Servers.new.Goals as goal

pub unwrap-mode-requires : goal.unwrap-mode-requires
unwrap-mode-requires g c =
    let n = c.len-server-end.ensures.value in
    rw (c.get.ensures, slice_get-get_or c.args.modes.now c.loop-server.server Soft (let same = c.requires in omega arith))

pub unwrap-reservation-requires : goal.unwrap-reservation-requires
unwrap-reservation-requires g c =
    let n = c.len-server-end.ensures.value in
    let rates = c.args.plan.now.rates in
    rw (c.get-in-loop-server.ensures.value, slice_get-get_or rates c.loop-server.server (record { budget = 0; period = 0 }) (omega arith))

pub loop-server-preserved : goal.loop-server-preserved
loop-server-preserved g c =
    let pushed : c.push.new.self.items ≡ c.loop-server.servers.items ++ c.new.result ∷ [] = search (rules, common_steps) in
    faces_more c.args.modes.now c.args.plan.now.rates c.loop-server.server c.unwrap-mode.result c.unwrap-reservation.result
    c.loop-server.servers.items c.push.new.self.items
    (sym c.unwrap-mode.ensures ∙ c.get.ensures) (sym c.unwrap-reservation.ensures ∙ c.get-in-loop-server.ensures.value)
    c.loop-server.invariant (rw c.new.ensures at pushed)

pub returns-clause-servers : goal.returns-clause-servers
returns-clause-servers g c =
    let modes = c.args.modes.now in
    let rates = c.args.plan.now.rates in
    let all : length (terms_of modes rates) ≤ c.loop-server.server =
    let m = c.len-server-end.ensures.value in rw (length-terms modes rates c.requires) (omega arith) in
    faces_all modes rates c.loop-server.server c.loop-server.servers.items all c.loop-server.invariant

pub invariant_of-result : goal.invariant_of-result
invariant_of-result g c =
    let modes = c.args.modes.now in
    let terms = terms_of modes c.args.plan.now.rates in
    let faces : c.loop-server.servers.items ≡ map new_face terms = returns-clause-servers g c in
    let few = c.len.ensures.lawful.few in
    let count = length-faces modes c.args.plan.now.rates c.requires in
    let empty : c.in_ok-new.field-0 ≡ [] = search (rules, common_steps) in
    (rw faces (omega arith), rw (empty, faces) (lists_new terms), rw (c.new-3.ensures, faces) (keeps_new terms))
