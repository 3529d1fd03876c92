-- What a stack over lent memory holds.
use Rattle.std.specs.Prelude.{Bool, true, false, List, take, Ok, Err, Result}
use Rattle.std.specs.Borrow.{GName}
use Rattle.stack.specs.declared.Stack.{Stack}

-- The memory that was lent, the part that is not in use too.
abbrev pub memory : {T : Type 0} → Stack T → List T
memory s = s.items.now

-- The elements in use, the first pushed at the front.
abbrev pub held : {T : Type 0} → Stack T → List T
held s = take s.used (memory s)

-- Which loan the memory is: a stack that keeps it hands its memory back to the same lender.
abbrev pub loan : {T : Type 0} → Stack T → GName
loan s = s.items.ghost_name

-- The answer where an element is offered: it is taken if there is a place for it, else it comes back.
abbrev pub offered : {T : Type 0} → Bool → T → Result (Unit {0}) T
offered true x = Ok tt
offered false x = Err x
