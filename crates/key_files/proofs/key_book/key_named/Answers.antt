use Rattle.std.proofs.Common.{◌≡◌, true, false}
use Rattle.std.specs.Ordering.{is_eq}
use Rattle.ndn_names.specs.Order.{name_cmp}
use Rattle.ndn_names.specs.View.{components}
use Rattle.key_files.specs.Shown.{named_keys}
use Rattle.key_files.proofs.Books.{none_among, none_more, none_at_all, among_at}
use Rattle.key_files.proofs.key_book.key_named.Goals as goal

pub returns-then-is_eq : goal.returns-then-is_eq
returns-then-is_eq c =
    let same : is_eq (name_cmp c.entry-item.result.name (components c.args.name)) ≡ true = cc in
    among_at (components c.args.name) c.args.entries.now c.loop-entry.entry-index c.entry-item.result c.loop-entry-test.true c.entry-item.is same

pub loop-entry-preserved : goal.loop-entry-preserved
loop-entry-preserved c =
    let other : is_eq (name_cmp c.entry-item.result.name (components c.args.name)) ≡ false = cc in
    none_more (components c.args.name) c.args.entries.now c.loop-entry.entry-index c.entry-item.result c.loop-entry-test.true c.entry-item.is other c.loop-entry.invariant

pub returns : goal.returns
returns c =
    none_among (components c.args.name) (named_keys c.args.entries.now)
    (none_at_all (components c.args.name) c.args.entries.now c.loop-entry.entry-index c.loop-entry-test.false c.loop-entry.invariant)
