use Rattle.std.proofs.Common.{◌≡◌, arith, length, map, refl, rules, string_bytes, false}
use Rattle.std.specs.Prelude.{eqb, filter}
use Rattle.std.proofs.lemmas.Fn.{filter_same}
use Rattle.std.proofs.lemmas.List.{length-map}
use Rattle.cbsrun_chart.specs.Chosen.{is_named}
use Rattle.cbsrun_chart.proofs.picture.Picture.chosen.Goals as goal

pub returns : goal.returns
returns c =
    let names = map string_bytes c.args.names.now in
    let kept : c.retain.new.self.items ≡ filter (is_named names) c.args.self.servers.items =
    filter_same _ _ _ (λ x b f' k. search rules) _ _ c.retain.ensures.filtered in
    let some : eqb (length names) 0 ≡ false = grind (arith, length-map c.args.names.now string_bytes, c.is_empty.ensures, c.if-is_empty.false) in
    record {
      servers = rw some kept;
      others = rw (c.saturating_add.ensures, c.len.ensures, c.len-count.ensures, c.args.self.servers.ok.0, c.retain.new.self.ok.0) refl;
      file = refl;
      reserved = refl;
      window = refl;
      end = refl;
      tick = refl;
      idle = refl;
    }
