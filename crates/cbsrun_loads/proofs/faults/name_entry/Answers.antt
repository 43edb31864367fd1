use Rattle.std.proofs.Common.{◌≡◌, ◌++◌, ◌∷◌, [], Ok, true, false, inr, map, string_bytes, bytes_eq, refl, sym, ◌∙◌}
use Rattle.std.specs.List.{list_any}
use Rattle.std.proofs.lemmas.List.{map-append}
use Rattle.toml.specs.View.{view}
use Rattle.cbsrun_entries.specs.Servers.{server_entry, server_view}
use Rattle.cbsrun_entries.proofs.Names.{list_any-mapped}
use Rattle.cbsrun_loads.proofs.faults.name_entry.Goals as goal

pub returns-then-is_taken-clause-named : goal.returns-then-is_taken-clause-named
returns-then-is_taken-clause-named c =
    let spelled : server_entry c.args.tick (view c.args.entry.now) ≡ Ok (server_view c.in-Ok.server) = sym c.in-Ok.ensures in
    let name = c.in-Ok.server.name.now in
    let same : list_any (λ n. bytes_eq (string_bytes n) name) c.args.names.now.items ≡ true =
    rw c.deref.ensures.value at (sym c.is_taken.ensures ∙ c.if-is_taken.true) in
    let taken = list_any-mapped (λ n. bytes_eq n name) string_bytes c.args.names.now.items ∙ same in
    inr (rw (spelled, taken) refl)

pub returns-clause-named : goal.returns-clause-named
returns-clause-named c =
    let spelled : server_entry c.args.tick (view c.args.entry.now) ≡ Ok (server_view c.in-Ok.server) = sym c.in-Ok.ensures in
    let name = c.in-Ok.server.name.now in
    let same : list_any (λ n. bytes_eq (string_bytes n) name) c.args.names.now.items ≡ false =
    rw c.deref.ensures.value at (sym c.is_taken.ensures ∙ c.if-is_taken.false) in
    let free = list_any-mapped (λ n. bytes_eq n name) string_bytes c.args.names.now.items ∙ same in
    let names : map string_bytes c.push.new.self.items ≡ map string_bytes c.args.names.now.items ++ name ∷ [] =
    rw (c.in_ok-push.ensures.items, map-append, c.in_ok-from_str.ensures.ok) refl in
    rw (spelled, free, names) refl
