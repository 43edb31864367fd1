use Rattle.std.proofs.Common.{◌++◌, ◌∙◌, ap, map, string_bytes, sym}
use Rattle.std.specs.List.{flat_map, range_with_len}
use Rattle.cbsrun_text.proofs.Texts.{grown, numbered_more}
use Rattle.cbsrun_sweep_texts.specs.Csv.{header, line_at}
use Rattle.cbsrun_sweep_texts.proofs.csv.sweep_csv.Goals as goal

pub loop-server-preserved : goal.loop-server-preserved
loop-server-preserved c =
    let n = c.loop-server.server in
    let line = line_at (map string_bytes c.args.names.now) c.args.sweep.now.servers.items in
    grown (string_bytes c.loop-server.text) header (string_bytes c.append_line.new.text) (flat_map line (range_with_len 0 n)) (line n)
    (rw c.deref.ensures.value at c.in_ok-append_line.ensures) c.loop-server.invariant
    ∙ ap (λ t. header ++ t) (sym (numbered_more line n))
