use Rattle.std.proofs.Common.{◌≡◌, ◌++◌, [], length, refl, sym, ◌∙◌, arith}
use Rattle.std.specs.Prelude.{◌≢◌}
use Rattle.std.specs.Result.{result_err}
use Rattle.toml.specs.View.{view}
use Rattle.cbsrun_toml_tables.specs.declared.fault.Place.TheVariants.{Server}
use Rattle.cbsrun_toml_tables.specs.declared.fault.FileKind.TheVariants.{OutOfMemory}
use Rattle.cbsrun_toml_tables.specs.Fields.{Gives}
use Rattle.cbsrun_entries.specs.Noted.{told_at}
use Rattle.cbsrun_loads.specs.Faults.{named_entry}
use Rattle.cbsrun_loads.specs.Spelling.{Named, admitted_entry, named_view}
use Rattle.cbsrun_loads.proofs.Judged.{first_step, had_none, kept_names, later_step, none_noted, one_more, servers_all, some_noted, still_some}
use Rattle.cbsrun_loads.proofs.faults.server_faults.Goals.{then-faults-eq0, else-faults-eq0}
use Rattle.cbsrun_loads.proofs.faults.server_faults.Goals as goal

pub loop-i-init : goal.loop-i-init
loop-i-init c =
    let names = c.new-names.ensures.items in
    let setup = c.new-setup.ensures in
    ([], c.new-faults.ensures c.args.most, omega arith, rw (names, setup) refl, λ zero. rw (names, setup) refl)

pub loop-i-preserved : goal.loop-i-preserved
loop-i-preserved c =
    let inv = c.loop-i.invariant in
    let i = c.loop-i.i in
    let v = c.index-entries-i.result in
    let read = c.if-faults-eq0.read in
    let so_far : Named = named_view c.loop-i.names.items c.loop-i.setup in
    let after : Named = named_view c.if-faults-eq0.names.items c.if-faults-eq0.setup in
    let free = rw c.err.ensures.value at c.in_ok-note.ensures.memory in
    let noted = rw c.err.ensures.value at (c.in_ok-note.ensures.noted inv.0 inv.1) in
    let few = one_more (Server i) (result_err read) inv.0 i inv.2 in
    elim c.if-faults-eq0.branch [
      | then-faults-eq0 w ↦
          let zero : c.loop-i.faults.count ≡ 0 = omega (arith, w.if-faults-eq0.true) in
          let none = none_noted inv.0 (sym inv.1.count ∙ zero) in
          let given : Gives OutOfMemory (λ _. after) read (admitted_entry c.args.tick so_far (view v)) =
          rw (w.names-is, w.setup-is, w.read-is) w.admit_entry-read.ensures.servers in
          let kept = kept_names read c.if-faults-eq0.names.items c.loop-i.names.items (rw (w.names-is, w.read-is) w.admit_entry-read.ensures.kept) in (
            inv.0 ++ told_at (Server i) (result_err read),
            noted,
            few,
            first_step view c.args.tick i so_far after c.args.entries.now v inv.0 _ read c.loop-i-test.true c.index-entries-i.is none given free kept inv.3,
            λ still. had_none (Server i) read inv.0 (length c.if-faults-eq0.names.items ≡ length c.if-faults-eq0.setup.plan.rates) (sym noted.count ∙ still) (rw (w.names-is, w.setup-is, w.read-is) w.admit_entry-read.ensures.named),
          )
      | else-faults-eq0 w ↦
          let some : c.loop-i.faults.count ≢ 0 = λ e. absurd (omega (arith, w.if-faults-eq0.false, e)) in
          let others = some_noted inv.0 (λ e. some (inv.1.count ∙ e)) in
          let given : Gives OutOfMemory (λ _. after.names) read (named_entry c.args.tick so_far.names (view v)) =
          rw (w.names-is, w.read-is) w.name_entry-read.ensures.named in
          let kept = kept_names read c.if-faults-eq0.names.items c.loop-i.names.items (rw (w.names-is, w.read-is) w.name_entry-read.ensures.kept) in (
            inv.0 ++ told_at (Server i) (result_err read),
            noted,
            few,
            later_step view c.args.tick i so_far after c.args.entries.now v inv.0 _ read c.loop-i-test.true c.index-entries-i.is others given free kept inv.3,
            λ still. absurd (still_some (Server i) (result_err read) inv.0 (λ e. some (inv.1.count ∙ e)) (sym noted.count ∙ still)),
          )
    ]

pub returns : goal.returns
returns c =
    let inv = c.loop-i.invariant in
    let all = servers_all view c.args.tick c.loop-i.i (named_view c.loop-i.names.items c.loop-i.setup) c.args.entries.now inv.0 _ c.loop-i-test.false inv.3 in
    rw (← all) inv.1
