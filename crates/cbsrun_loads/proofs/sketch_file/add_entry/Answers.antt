use Rattle.std.proofs.Common.{◌≡◌, ◌++◌, ◌∷◌, [], Ok, true, false, inr, map, string_bytes, bytes_eq, refl, sym, ◌∙◌}
use Rattle.std.specs.List.{list_any}
use Rattle.std.specs.Prelude.{length, ltb}
use Rattle.std.proofs.lemmas.List.{map-append, length-map}
use Rattle.toml.specs.View.{view}
use Rattle.cbs_rate.specs.Limits.{most_servers}
use Rattle.cbsrun_loads.specs.Sketches.{sketch_entry, sketch_view}
use Rattle.cbsrun_entries.proofs.Names.{list_any-mapped}
use Rattle.cbsrun_loads.proofs.sketch_file.add_entry.Goals as goal

pub returns-then-is_taken-clause-servers : goal.returns-then-is_taken-clause-servers
returns-then-is_taken-clause-servers c =
    let spelled : sketch_entry c.args.tick (view c.args.entry.now) ≡ Ok (sketch_view c.in-Ok.one) = sym c.in-Ok.ensures in
    let name = c.in-Ok.one.name.now in
    let same : list_any (λ n. bytes_eq (string_bytes n) name) c.args.names.now.items ≡ true =
    rw c.deref.ensures.value at (sym c.is_taken.ensures ∙ c.if-is_taken.true) in
    let taken = list_any-mapped (λ n. bytes_eq n name) string_bytes c.args.names.now.items ∙ same in
    inr (rw (spelled, taken) refl)

pub returns-then-not-has_room-clause-servers : goal.returns-then-not-has_room-clause-servers
returns-then-not-has_room-clause-servers c =
    let spelled : sketch_entry c.args.tick (view c.args.entry.now) ≡ Ok (sketch_view c.in-Ok.one) = sym c.in-Ok.ensures in
    let name = c.in-Ok.one.name.now in
    let same : list_any (λ n. bytes_eq (string_bytes n) name) c.args.names.now.items ≡ false =
    rw c.deref.ensures.value at (sym c.is_taken.ensures ∙ c.if-is_taken.false) in
    let free = list_any-mapped (λ n. bytes_eq n name) string_bytes c.args.names.now.items ∙ same in
    let full : ltb (length (map string_bytes c.args.names.now.items)) most_servers ≡ false =
    rw length-map (rw c.deref-2.ensures.value at (sym c.has_room.ensures ∙ c.if-not-has_room.true)) in
    inr (rw (spelled, free, full) refl)

pub returns-clause-servers : goal.returns-clause-servers
returns-clause-servers c =
    let spelled : sketch_entry c.args.tick (view c.args.entry.now) ≡ Ok (sketch_view c.in-Ok.one) = sym c.in-Ok.ensures in
    let name = c.in-Ok.one.name.now in
    let same : list_any (λ n. bytes_eq (string_bytes n) name) c.args.names.now.items ≡ false =
    rw c.deref.ensures.value at (sym c.is_taken.ensures ∙ c.if-is_taken.false) in
    let free = list_any-mapped (λ n. bytes_eq n name) string_bytes c.args.names.now.items ∙ same in
    let room : ltb (length (map string_bytes c.args.names.now.items)) most_servers ≡ true =
    rw length-map (rw c.deref-2.ensures.value at (sym c.has_room.ensures ∙ c.if-not-has_room.false)) in
    let names : map string_bytes c.push.new.self.items ≡ map string_bytes c.args.names.now.items ++ name ∷ [] =
    rw (c.in_ok-push.ensures.items, map-append, c.in_ok-from_str.ensures.ok) refl in
    rw (spelled, free, room, names, c.in_ok-push-2.ensures.items) refl
