use Rattle.std.proofs.Common.{◌≡◌, ◌∙◌, ◌<◌, ◌++◌, ap, ap₂, arith, length, string_bytes, sym}
use Rattle.std.specs.Prelude.{flat_map, map}
use Rattle.std.specs.List.{range_with_len}
use Rattle.cbsrun_text.proofs.Texts.{grown, numbered_more}
use Rattle.cbsrun_csv.specs.Kept.{jobs_at, kept_lines}
use Rattle.cbsrun_csv.specs.Lines.{server_lines}
use Rattle.cbsrun_csv.proofs.Pieces.{jobs_found, named_at}
use Rattle.cbsrun_csv.proofs.view.CsvView.append_servers.Goals as goal

pub loop-server-preserved : goal.loop-server-preserved
loop-server-preserved c =
    let s = c.loop-server.server in
    let kept = c.args.self.now in
    let names = map string_bytes c.args.names.now in
    let f = kept_lines names c.args.end kept in
    let inside : s < length c.self.inside.servers.items = omega arith in
    let within : s < length kept = rw c.self.view_is at inside in
    let listed : s < length c.args.names.now = omega arith in
    let jobs : c.index.result.now ≡ jobs_at kept s = jobs_found kept s c.index.result.now within (rw c.self.view_is at c.index.ensures) in
    let name = c.deref.ensures ∙ named_at string_bytes c.args.names.now s c.index-names-server.result listed c.index-names-server.is in
    let wrote = c.in_ok-append_lines.ensures ∙ ap₂ (λ n js. string_bytes c.loop-server.text ++ server_lines n c.args.end js) name jobs in
    grown _ _ _ (flat_map f (range_with_len 0 s)) (f s) wrote c.loop-server.invariant
    ∙ ap (λ t. string_bytes c.args.text.now ++ t) (sym (numbered_more f s))
