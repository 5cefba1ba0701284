-- `show_rescued` prints the proper text and says its changes. Assumes nothing.
use Rattle.rescue.specs.Rescue.{changes_of}
use Rattle.coverage.proofs.Rescued.{left-text, left-changes}
use Rattle.coverage.proofs.show_rescued.Goals as goal

pub print_proper-requires : goal.print_proper-requires
print_proper-requires c = let h = c.requires in record { end_in_bounds = h.text-fits; out_value = left-text h c.if-refusal-ne0.false }

pub say_last-requires : goal.say_last-requires
say_last-requires c =
    let s = c in
    c.say_changes-end.ensures.of (changes_of s.args.text.now) (left-changes s.requires c.if-refusal-ne0.false)
