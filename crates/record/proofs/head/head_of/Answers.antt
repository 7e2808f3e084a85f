-- `record::head::head_of` meets its contract: each head is a case of `head_of` by computation, and a number that is none of them is no head.
use mathlib.Core.Path.{sym, ap}
use mathlib.Core.Logic.{⊎_elim}
use Rattle.record.specs.Heads.{head_of}
use Rattle.record.proofs.HeadLaws.{no-head}
use Rattle.record.proofs.head.head_of.Goals as goal

pub returns-in-4 : goal.returns-in-4
unfolding head_of
returns-in-4 c = sym (ap head_of c.in-4.is)

pub returns-in-5 : goal.returns-in-5
unfolding head_of
returns-in-5 c = sym (ap head_of c.in-5.is)

pub returns-in-6 : goal.returns-in-6
unfolding head_of
returns-in-6 c = sym (ap head_of c.in-6.is)

pub returns-in-8 : goal.returns-in-8
unfolding head_of
returns-in-8 c = sym (ap head_of c.in-8.is)

pub returns-in-9 : goal.returns-in-9
unfolding head_of
returns-in-9 c = sym (ap head_of c.in-9.is)

pub returns-in-10 : goal.returns-in-10
unfolding head_of
returns-in-10 c = sym (ap head_of c.in-10.is)

pub returns-in-12 : goal.returns-in-12
unfolding head_of
returns-in-12 c = sym (ap head_of c.in-12.is)

pub returns-in-13 : goal.returns-in-13
unfolding head_of
returns-in-13 c = sym (ap head_of c.in-13.is)

pub returns-in-14 : goal.returns-in-14
unfolding head_of
returns-in-14 c = sym (ap head_of c.in-14.is)

pub returns-in-16 : goal.returns-in-16
unfolding head_of
returns-in-16 c = sym (ap head_of c.in-16.is)

pub returns-in-17 : goal.returns-in-17
unfolding head_of
returns-in-17 c = sym (ap head_of c.in-17.is)

pub returns-in-18 : goal.returns-in-18
unfolding head_of
returns-in-18 c = sym (ap head_of c.in-18.is)

pub returns-in-0-to-3 : goal.returns-in-0-to-3
unfolding head_of
returns-in-0-to-3 c =
    ⊎_elim (λ e. sym (ap head_of e)) (⊎_elim (λ e. sym (ap head_of e)) (λ e. sym (ap head_of e))) c.in-0-to-3.in-0-to-3-own.keys13

pub returns-in-0-to-3-2 : goal.returns-in-0-to-3-2
returns-in-0-to-3-2 c =
    let none = c.in-0-to-3.in-0-to-3-own.rest in
    sym
    (no-head c.args.number
    none.0.0.0.0.0.0.0.0.0.0.0.0.1 none.0.0.0.0.0.0.0.0.0.0.0.1 none.0.0.0.0.0.0.0.0.0.0.1 none.0.0.0.0.0.0.0.0.0.1 none.0.0.0.0.0.0.0.0.1 none.0.0.0.0.0.0.0.1
    none.0.0.0.0.0.0.1 none.0.0.0.0.0.1 none.0.0.0.0.1 none.0.0.0.1 none.0.0.1 none.0.1)
