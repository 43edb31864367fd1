use Rattle.std.proofs.Common.{◌≡◌, Some, None, map, string_bytes, bytes_eq, refl, sym, ◌∙◌}
use Rattle.std.specs.List.{position}
use Rattle.cbsrun_entries.proofs.Names.{place-mapped}
use Rattle.cbsrun_entries.proofs.source.server_named.Goals as goal

pub returns-in-Some-clause-value : goal.returns-in-Some-clause-value
returns-in-Some-clause-value c =
    let here : position (λ n. bytes_eq n c.args.name.now) (map string_bytes c.args.names.now) ≡ Some c.in-Some.server =
    place-mapped (λ n. bytes_eq n c.args.name.now) string_bytes c.args.names.now ∙ (sym c.place_of.ensures ∙ c.in-Some.is) in
    rw here refl

pub returns-in-None-clause-value : goal.returns-in-None-clause-value
returns-in-None-clause-value c =
    let none : position (λ n. bytes_eq n c.args.name.now) (map string_bytes c.args.names.now) ≡ None =
    place-mapped (λ n. bytes_eq n c.args.name.now) string_bytes c.args.names.now ∙ (sym c.place_of.ensures ∙ c.in-None.is) in
    rw none refl
