-- `number::decimal::power` meets its contract: each arm has the entry of a table whose rule is proved once. Assumes nothing.
use native.Mathlib.Nat.{le_antisymm}
use Rattle.number.proofs.Counting.{power_at, past_all}
use Rattle.number.proofs.decimal.power.Goals as goal

pub returns-in-0 : goal.returns-in-0
returns-in-0 c = power_at _ 0 c.requires c.in-0.is

pub returns-in-1 : goal.returns-in-1
returns-in-1 c = power_at _ 1 c.requires c.in-1.is

pub returns-in-2 : goal.returns-in-2
returns-in-2 c = power_at _ 2 c.requires c.in-2.is

pub returns-in-3 : goal.returns-in-3
returns-in-3 c = power_at _ 3 c.requires c.in-3.is

pub returns-in-4 : goal.returns-in-4
returns-in-4 c = power_at _ 4 c.requires c.in-4.is

pub returns-in-5 : goal.returns-in-5
returns-in-5 c = power_at _ 5 c.requires c.in-5.is

pub returns-in-6 : goal.returns-in-6
returns-in-6 c = power_at _ 6 c.requires c.in-6.is

pub returns-in-7 : goal.returns-in-7
returns-in-7 c = power_at _ 7 c.requires c.in-7.is

pub returns-in-8 : goal.returns-in-8
returns-in-8 c = power_at _ 8 c.requires c.in-8.is

pub returns-in-9 : goal.returns-in-9
returns-in-9 c = power_at _ 9 c.requires c.in-9.is

pub returns-in-10 : goal.returns-in-10
returns-in-10 c = power_at _ 10 c.requires c.in-10.is

pub returns-in-11 : goal.returns-in-11
returns-in-11 c = power_at _ 11 c.requires c.in-11.is

pub returns-in-12 : goal.returns-in-12
returns-in-12 c = power_at _ 12 c.requires c.in-12.is

pub returns-in-13 : goal.returns-in-13
returns-in-13 c = power_at _ 13 c.requires c.in-13.is

pub returns-in-14 : goal.returns-in-14
returns-in-14 c = power_at _ 14 c.requires c.in-14.is

pub returns-in-15 : goal.returns-in-15
returns-in-15 c = power_at _ 15 c.requires c.in-15.is

pub returns-in-16 : goal.returns-in-16
returns-in-16 c = power_at _ 16 c.requires c.in-16.is

pub returns-in-17 : goal.returns-in-17
returns-in-17 c = power_at _ 17 c.requires c.in-17.is

pub returns-in-18 : goal.returns-in-18
returns-in-18 c = power_at _ 18 c.requires c.in-18.is

pub returns-in_default : goal.returns-in_default
returns-in_default c = power_at _ 19 c.requires (le_antisymm c.requires (past_all 19 _ c.in_default.in_default-own.rest))
