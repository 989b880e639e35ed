-- The specification's view of private types.
use Rattle.std.specs.Prelude.{ℕ, map, string_bytes, List, ◌++◌}
use Rattle.std.specs.Option.{option_map}
use Rattle.info_rules.specs.declared.entry.Entry.{Entry}
use Rattle.info_rules.specs.declared.tree_draft.Draft.{Draft}
use Rattle.info_rules.specs.declared.words.Token.{Token as TokenView}
use Rattle.info_rules.specs.Tree.{PlainEntry, Block, blocks_of}
use Rattle.info_rules.specs.Words.{Token, Word, Open, Close, Broken}
use Rattle.info_rules.specs.TreeReading.{PlainDraft}
use Rattle.info_rules.specs.declared.table.Form.{Form}
use Rattle.info_rules.specs.declared.table.Block.{Block as BlockView}
use Rattle.info_rules.specs.declared.table.Block.TheVariants as block_views
use Rattle.info_rules.specs.declared.table.Takes.{Takes as TakesView}
use Rattle.info_rules.specs.declared.table.Takes.TheVariants as takes_views
use Rattle.info_rules.specs.declared.table.Times.{Times as TimesView}
use Rattle.info_rules.specs.declared.table.Times.TheVariants as times_views
use Rattle.info_rules.specs.declared.value_kind.ValueKind.{ValueKind as ValueView}
use Rattle.info_rules.specs.declared.value_kind.ValueKind.TheVariants as value_views
use Rattle.info_rules.specs.declared.form.Tested.{Tested as TestedView}
use Rattle.info_rules.specs.declared.form.Tested.TheVariants as tested_views
use Rattle.info_rules.specs.declared.form.Form.{Form as NameFormView}
use Rattle.info_rules.specs.declared.form.Form.TheVariants as name_form_views
use Rattle.info_rules.specs.Blocks as blocks
use Rattle.info_rules.specs.Forms as forms
use Rattle.info_rules.specs.Table.{PlainForm}
use Rattle.info_rules.specs.declared.keys.Key.{Key}
use Rattle.info_rules.specs.declared.keys.Keys.{Keys}
use Rattle.info_rules.specs.declared.packet.Packet.{Packet}
use Rattle.ndn_packets.specs.Packet.{PlainFrame, AnInterest, AData, plain_signature}
use Rattle.ndn_packets.specs.View.{plain_interest, plain_data}
use Rattle.ndn_names.specs.View.{components}
use Rattle.info_rules.specs.declared.packet.Signed.{Signed}
use Rattle.info_rules.specs.Seen.{SeenPacket, seen_interest, seen_data, PlainSigned}
use Rattle.info_rules.specs.declared.words.Token.TheVariants as views
use Rattle.info_rules.specs.declared.packet.Packet.TheVariants as packets

abbrev pub entry_of : Entry → PlainEntry
entry_of entry = record {
  depth = entry.depth;
  line = entry.line;
  key = string_bytes entry.key;
  value = option_map string_bytes entry.value;
  has_block = entry.has_block;
}

abbrev pub token_of : TokenView → Token
token_of (views.Word word) = Word word.now
token_of views.Open = Open
token_of views.Close = Close
token_of views.Broken = Broken

abbrev pub draft_of : Draft → PlainDraft
draft_of draft = record {
  ended = map entry_of draft.ended.items;
  pending = option_map entry_of draft.pending;
  depth = draft.depth;
  closed = draft.closed;
  deep = draft.deep;
}

abbrev pub key_of : Key → Block
key_of key = (entry_of key.own.now, map entry_of key.inner.now)

abbrev pub keys_of : Keys → List Block
keys_of keys = blocks_of keys.depth (map entry_of keys.entries.now)

abbrev pub block_kind_of : BlockView → blocks.BlockKind
block_kind_of block_views.File = blocks.File
block_kind_of block_views.Anchor = blocks.Anchor
block_kind_of block_views.Rule = blocks.Rule
block_kind_of block_views.Filter = blocks.Filter
block_kind_of block_views.Customized = blocks.Customized
block_kind_of block_views.Hierarchical = blocks.Hierarchical
block_kind_of block_views.Locator = blocks.Locator
block_kind_of block_views.Hyper = blocks.Hyper

abbrev pub value_kind_of : ValueView → blocks.ValueKind
value_kind_of value_views.Id = blocks.Id
value_kind_of value_views.PacketKind = blocks.PacketKind
value_kind_of value_views.NameWord = blocks.NameWord
value_kind_of value_views.Uri = blocks.Uri
value_kind_of value_views.Relation = blocks.Relation
value_kind_of value_views.Pattern = blocks.Pattern
value_kind_of value_views.Template = blocks.Template
value_kind_of value_views.CheckerType = blocks.CheckerType
value_kind_of value_views.SignatureType = blocks.SignatureType
value_kind_of value_views.AnchorType = blocks.AnchorType

abbrev pub takes_of : TakesView → blocks.Takes
takes_of (takes_views.Value kind) = blocks.Value (value_kind_of kind)
takes_of takes_views.Inner = blocks.Inner

abbrev pub times_of : TimesView → blocks.Times
times_of times_views.Once = blocks.Once
times_of (times_views.UpTo most) = blocks.UpTo most
times_of times_views.AnyNumber = blocks.AnyNumber

abbrev pub tested_of : TestedView → forms.Tested
tested_of tested_views.PacketName = forms.PacketName
tested_of tested_views.KeyName = forms.KeyName

abbrev pub name_form_of : NameFormView → forms.Form
name_form_of name_form_views.Related = forms.Related
name_form_of name_form_views.Matching = forms.Matching
name_form_of name_form_views.Hyper = forms.Hyper

-- a form with the line of its key
abbrev pub found_form_of : NameFormView × ℕ → forms.Form × ℕ
found_form_of found = (name_form_of found.0, found.1)

abbrev pub form_of : Form → PlainForm
form_of form = record { word = form.0.now; takes = takes_of form.1; times = times_of form.2 }

abbrev pub frame_of : Packet → PlainFrame
frame_of (packets.Interest i) = AnInterest i.now.whole.now (plain_interest i.now)
frame_of (packets.Data d) = AData d.now.whole.now (plain_data d.now)

abbrev pub seen_of : Packet → SeenPacket
seen_of (packets.Interest i) = seen_interest i.now.whole.now (plain_interest i.now)
seen_of (packets.Data d) = seen_data d.now.whole.now (plain_data d.now)

abbrev pub signed_of : Signed → PlainSigned
signed_of s = record {
  kind = s.kind;
  name = components s.name;
  signature = plain_signature s.signature;
  covered = s.parts.first.now ++ s.parts.second.now;
}
