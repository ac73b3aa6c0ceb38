-- The kinds of tables and stores: their numbers and their words.
use Rattle.std.specs.Prelude.{◌≡◌, ℕ, cond, List, codes, Ok, Err, Result, ◌==◌, ◌≢◌}
use Rattle.words.specs.declared.Refusal.{Refusal}
use Rattle.words.specs.Refusals.{refused}
use Rattle.words.specs.declared.kinds.TableKind.{TableKind}
use Rattle.words.specs.declared.kinds.TableKind.TheVariants.{Plain, Full, Sparse}
use Rattle.words.specs.declared.kinds.StoreKind.{StoreKind}
use Rattle.words.specs.declared.kinds.StoreKind.TheVariants.{Loose, Ordered}

-- the kind with this number, or 12
abbrev pub table_kind_of : ℕ → Result TableKind Refusal
table_kind_of n = cond (n == 0) (Ok Plain) (cond (n == 1) (Ok Full) (cond (n == 2) (Ok Sparse) (refused 12)))

abbrev pub table_word : TableKind → List ℕ
table_word Plain = codes "plain"
table_word Full = codes "full"
table_word Sparse = codes "sparse"

abbrev pub store_word : StoreKind → List ℕ
store_word Loose = codes "loose"
store_word Ordered = codes "ordered"

-- a word is taken exactly where it is a kind's own
abbrev pub TableNamed : List ℕ → Result TableKind Refusal → Type 0
TableNamed word (Ok kind) = word ≡ table_word kind
TableNamed word (Err e) = (kind : TableKind) → word ≢ table_word kind

abbrev pub StoreNamed : List ℕ → Result StoreKind Refusal → Type 0
StoreNamed word (Ok kind) = word ≡ store_word kind
StoreNamed word (Err e) = (kind : StoreKind) → word ≢ store_word kind
