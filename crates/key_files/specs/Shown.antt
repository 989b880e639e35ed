-- The keys of a key book, with their names.
use Rattle.std.specs.Prelude.{List, map}
use Rattle.key_files.specs.declared.key_book.Entry.{Entry}
use Rattle.key_files.specs.KeyFile.{NamedKey}

abbrev pub named_keys : List Entry → List NamedKey
named_keys entries = map (λ e. (e.name, e.key)) entries
