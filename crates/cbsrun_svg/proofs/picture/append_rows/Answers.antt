use Rattle.std.proofs.Common.{◌∙◌, ◌+◌, ◌*◌, ◌++◌, append_assoc, ap, arith, string_bytes, sym, take}
use Rattle.std.proofs.lemmas.List.{append-nil}
use Rattle.cbsrun_svg.specs.Pictures.{rows_text, server_row}
use Rattle.cbsrun_svg.proofs.Frames.{rows_next}
use Rattle.cbsrun_svg.proofs.picture.append_rows.Goals as goal

pub loop-server-init : goal.loop-server-init
unfolding rows_text
loop-server-init c = record { top = omega arith; text = sym (append-nil (string_bytes c.args.text.now)) }

pub loop-server-preserved : goal.loop-server-preserved
loop-server-preserved c =
    let n = c.args.nanoseconds in
    let a = c.args.axis.now in
    let l = c.args.layout.now in
    let ds = c.args.servers.now in
    let i = c.loop-server.server-index in
    let d = c.server-item.result in
    let old = string_bytes c.args.text.now in
    let rows = rows_text n a l c.args.window 11000 (take i ds) in
    record {
      top = omega (arith, c.loop-server.invariant.top);
      text = c.in_ok-append_server_row.ensures ∙ (ap (λ t. t ++ server_row n a l c.args.window c.loop-server.top d) c.loop-server.invariant.text
          ∙ (append_assoc old rows (server_row n a l c.args.window c.loop-server.top d)
          ∙ (ap (λ t. old ++ (rows ++ server_row n a l c.args.window t d)) c.loop-server.invariant.top
          ∙ (ap (λ y. old ++ (rows ++ server_row n a l c.args.window (11000 + i * l.row) y)) c.server-item.is
          ∙ ap (λ t. old ++ t) (sym (rows_next n a l c.args.window 11000 ds i d c.loop-server-test.true))))));
    }
