-- The kinds of calls, and their words.
use Rattle.std.specs.Prelude.{ℕ, List, codes}
use Rattle.runs.specs.declared.calls.Ask.{Ask}
use Rattle.runs.specs.declared.calls.Ask.TheVariants.{Place, Remove, Before, FirstAfter, LastBefore, List as AskList, Push, Test}
use Rattle.graph.specs.declared.tally.Kind.{Kind}
use Rattle.graph.specs.declared.tally.Kind.TheVariants.{Place as PlaceKind, Remove as RemoveKind, Before as BeforeKind, FirstAfter as FirstAfterKind, LastBefore as LastBeforeKind, List as ListKind, Push as PushKind, Test as TestKind}

abbrev pub kind_of : Ask → Kind
kind_of (Place u v) = PlaceKind
kind_of (Remove u v) = RemoveKind
kind_of (Before u v) = BeforeKind
kind_of (FirstAfter u t) = FirstAfterKind
kind_of (LastBefore u t) = LastBeforeKind
kind_of AskList = ListKind
kind_of (Push v) = PushKind
kind_of Test = TestKind

abbrev pub kind_word : Kind → List ℕ
kind_word PlaceKind = codes "place"
kind_word RemoveKind = codes "remove"
kind_word BeforeKind = codes "before"
kind_word FirstAfterKind = codes "first-after"
kind_word LastBeforeKind = codes "last-before"
kind_word ListKind = codes "list"
kind_word PushKind = codes "push"
kind_word TestKind = codes "test"
