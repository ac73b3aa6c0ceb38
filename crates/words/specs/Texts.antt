-- How moves and refusals are written.
use Rattle.std.specs.Prelude.{ℕ, ◌/◌, ◌%◌, List, ◌++◌, codes, decimal}
use Rattle.words.specs.declared.Refusal.{Refusal}
use Rattle.words.specs.declared.Refusal.TheVariants.{NoSuchShuttle, NoSuchPlace, SameShuttle, AlreadyHeld, NotHeld, Circle, StoreFull, TableFull, TooShort, BadForm, BadSize, NoSuchKind}

-- shuttle, dot, place
abbrev pub move_text : ℕ → List ℕ
move_text c = decimal (c / 4096) ++ (codes "." ++ decimal (c % 4096))

-- why a call is refused, in words
abbrev pub reason : Refusal → List ℕ
reason NoSuchShuttle = codes "a shuttle is not below k"
reason NoSuchPlace = codes "a place is not below n"
reason SameShuttle = codes "both shuttles are the same"
reason AlreadyHeld = codes "the wait is already held"
reason NotHeld = codes "the wait is not held"
reason Circle = codes "circle: the second move is before the first"
reason StoreFull = codes "the store is full"
reason TableFull = codes "the table's cell is empty and the table is full"
reason TooShort = codes "a slice or a buffer is too short"
reason BadForm = codes "the file or a step is badly formed"
reason BadSize = codes "a size is outside its limits"
reason NoSuchKind = codes "there is no such table kind"
