-- A text that was written is read back as its value, and so is the text of a message that has such values as its header and payload.
use Rattle.std.proofs.Common.{◌≡◌, ℕ, suc, max, ◌≤◌, List, [], false, Some, option_and_then, Result, Ok, Err, IfOk, refl, sym, ap, ap₂, ◌∙◌, arith, append-nil}
use Rattle.std.proofs.lemmas.Str.{is_utf8-from_IsUtf8}
use Rattle.std.specs.Str.{IsUtf8}
use Rattle.json.specs.Json as json
use Rattle.json.specs.Lex.{tokens}
use Rattle.json.specs.Tree as tree
use Rattle.json.specs.Tree.{json_tokens}
use Rattle.json.proofs.Numbered.{document-HasNumbers}
use Rattle.json.proofs.Printed.Tokens.{tokens-print}
use Rattle.json.proofs.Printed.Trees.{value-json_tokens, ArePrintable-json_tokens}
use Rattle.serde_json.specs.Data.{Data, null, boolean, number, string, array, object, Items, no_items, item, Members, no_members, member, depth, items_depth, members_depth}
use Rattle.serde_json.specs.Read.{of_json, read, max_depth}
use Rattle.serde_json.specs.Written.{outline, items_outline, members_outline, has_float, compact_text, IsInOrder}
use Rattle.serde_json.proofs.Texts.{tokens_from_order, print-outline}
use Rattle.xfs_json.specs.Reading.{reading}
use Rattle.xfs_envelope.specs.Messages.{headed, framed}
use Rattle.xfs_envelope.specs.Readable.{IsReadable}

mutual
  depth-outline : (d : Data) → tree.depth (outline d) ≡ depth d
  depth-outline null = refl
  depth-outline (boolean b) = refl
  depth-outline (number n) = refl
  depth-outline (string s) = refl
  depth-outline (array ds) = ap suc (items_depth-outline ds)
  depth-outline (object ms) = ap suc (members_depth-outline ms)

  items_depth-outline : (ds : Items) → tree.items_depth (items_outline ds) ≡ items_depth ds
  items_depth-outline no_items = refl
  items_depth-outline (item d ds) = ap₂ max (depth-outline d) (items_depth-outline ds)

  members_depth-outline : (ms : Members) → tree.members_depth (members_outline ms) ≡ members_depth ms
  members_depth-outline no_members = refl
  members_depth-outline (member k d ms) = ap₂ max (depth-outline d) (members_depth-outline ms)

value_back : (d : Data) (n : ℕ) → depth d ≤ n → json.value n (json_tokens (outline d)) ≡ Some (outline d, [])
value_back d n shallow = ap (json.value n) (sym (append-nil (json_tokens (outline d)))) ∙ value-json_tokens (outline d) n [] (omega (arith, depth-outline d, shallow))

read_tokens : (d : Data) (text : List ℕ) → depth d ≤ max_depth → tokens text ≡ json_tokens (outline d) → read text ≡ of_json (outline d)
read_tokens d text shallow same =
    ap (λ found. option_and_then of_json (option_and_then (λ p. json.if_last p.0 p.1) found)) (ap (json.value max_depth) same ∙ value_back d max_depth shallow)

pub IsReadable-written : (d : Data) (text : List ℕ) → has_float d ≡ false → depth d ≤ max_depth → IsInOrder text d → read text ≡ Some d → IsReadable d
IsReadable-written d text whole shallow order reads =
    let same = tokens_from_order text d order whole in
    record {
      numbers = document-HasNumbers text (outline d) (ap (option_and_then (λ p. json.if_last p.0 p.1)) (ap (json.value json.max_depth) same ∙ value_back d json.max_depth (omega (arith, shallow))));
      reads = sym (read_tokens d text shallow same) ∙ reads;
    }

read_text : (d : Data) → depth d ≤ max_depth → IsReadable d → read (compact_text d) ≡ Some d
read_text d shallow h =
    read_tokens d (compact_text d) shallow (ap tokens (sym (print-outline d)) ∙ tokens-print _ (ArePrintable-json_tokens (outline d) h.numbers)) ∙ h.reads

pub reading_text : (d : Data) (text : List ℕ) → IsUtf8 text → text ≡ compact_text d → depth d ≤ max_depth → IsReadable d → reading text ≡ Some d
reading_text d text utf8 is shallow h = rw (is_utf8-from_IsUtf8 text utf8) (ap read is ∙ read_text d shallow h)

pub IsReadable-headed : (h : Data) → IsReadable h → IsReadable (headed h)
IsReadable-headed h a = record { numbers = (a.numbers, tt); reads = rw a.reads }

pub IsReadable-framed : (h d : Data) → IsReadable h → IsReadable d → IsReadable (framed h d)
IsReadable-framed h d a b = record { numbers = (a.numbers, (b.numbers, tt)); reads = rw (a.reads, b.reads) }

pub IfOk-both : {X Y : Type 0} (r : Result X Y) (P Q R : X → Type 0) → ((x : X) → P x → Q x → R x) → IfOk r P → IfOk r Q → IfOk r R
IfOk-both (Ok x) P Q R f p q = f x p q
IfOk-both (Err e) P Q R f p q = tt
