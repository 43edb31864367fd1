use Rattle.std.proofs.Common.{◌≡◌, ℕ, inl, sym, ◌∙◌}
use Rattle.cbsrun_toml_tables.specs.declared.fault.Place.TheVariants.{Server}
use Rattle.cbsrun_fault_texts.proofs.Documents.{refusal_of, none_refused}
use Rattle.cbsrun_fault_texts.proofs.faults.append_fault.Goals as goal

same_server : (m n : ℕ) → Server m ≡ Server n → m ≡ n
same_server m n e = cc

pub returns-in-NotAdmitted-Server : goal.returns-in-NotAdmitted-Server
returns-in-NotAdmitted-Server c file top is server kind place =
    let same = same_server c.in-NotAdmitted-Server.number server (sym c.in-NotAdmitted-Server.is-1 ∙ place) in
    refusal_of c.args.document server file top is c.in-Some.spot c.args.page.now c.append_not_admitted.new.page (c.in-Some.ensures server place)
    (rw same at c.append_not_admitted.ensures)

pub returns-in-None : goal.returns-in-None
returns-in-None c file top is server kind place = inl (none_refused c.args.document server file top is (c.in-None.ensures server place))
