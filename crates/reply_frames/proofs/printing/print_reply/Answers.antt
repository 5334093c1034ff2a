use Rattle.reply_frames.proofs.printing.print_reply.Goals as goal

pub returns : goal.returns
returns g c =
    let prints = c.finish.ensures _ _ _ c.new-out.ensures c.put_reply.ensures in
    record {
      whole = prints.whole;
      no_fault = prints.no_fault;
      cut = prints.cut;
      failed = prints.failed;
      later = prints.later;
    }
