use Rattle.std.proofs.Common.{◌≡◌, ◌++◌, string_bytes, arith}
use Rattle.std.proofs.lemmas.Grind.{common_steps}
use Rattle.std.specs.Prelude.{decimal}
use Rattle.std.proofs.lemmas.List.{length_push}
use Rattle.cbsrun_check_text.proofs.Rows.{mapped_more}
use Rattle.cbsrun_check_text.proofs.check.numbered.Goals as goal

pub loop-server-preserved : goal.loop-server-preserved
loop-server-preserved c =
    let name = c.append_pair.new.text in
    let pushed = c.in_ok-push.ensures.items in
    let front = c.args.front.now in
    let named : string_bytes name ≡ front ++ decimal c.loop-server.server = rw c.new-name.ensures.bytes at c.in_ok-append_pair.ensures in
    record {
      names = rw pushed (mapped_more string_bytes (λ s. front ++ decimal s) c.loop-server.names.items name c.loop-server.server
          c.loop-server.invariant.names named);
      count = rw pushed (let e = length_push c.loop-server.names.items name in let n = c.loop-server.invariant.count in omega arith);
    }

pub loop-server-init : goal.loop-server-init
loop-server-init c = grind (arith, common_steps)

pub returns : goal.returns
returns c = grind (arith, common_steps)
