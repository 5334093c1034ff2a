use Rattle.result_lines.proofs.printing.print_verdict.Goals as goal

pub returns : goal.returns
returns g c =
    let prints = c.finish.ensures _ _ _ c.new-out.ensures c.put_verdict.ensures in
    record {
      whole = prints.whole;
      no_fault = prints.no_fault;
      cut = prints.cut;
      failed = prints.failed;
      later = prints.later;
    }
