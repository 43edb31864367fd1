use Rattle.std.proofs.Common.{length}
use Rattle.std.proofs.lemmas.List.{length-map}
use Rattle.cbsrun_csv.proofs.Pieces.{csv_kept}
use Rattle.cbsrun_csv.proofs.view.CsvView.text.Goals as goal

pub returns : goal.returns
returns c = λ seen is.
    csv_kept _ (length c.args.names.now) c.args.end seen c.args.self.now _ _ (length-map c.args.names.now _) is c.in_ok-text.ensures.ok
    c.in_ok-append_servers.ensures
