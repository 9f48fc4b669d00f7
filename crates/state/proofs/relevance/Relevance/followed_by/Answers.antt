-- Each case is that of `followed`. Assumes nothing.
use borrow.Author.Rules.{rules}
use Rattle.state.specs.Relevances.{followed}
use Rattle.state.proofs.relevance.Relevance.followed_by.Goals as goal

pub returns-in-Blocked : goal.returns-in-Blocked
unfolding followed
returns-in-Blocked c = rw c.in-Blocked.is

pub returns-in-Blocked-later : goal.returns-in-Blocked-later
unfolding followed
returns-in-Blocked-later c = rw (c.in-Helping.is, c.in-Blocked-later.is)

pub returns-in-Helping-later : goal.returns-in-Helping-later
unfolding followed
returns-in-Helping-later c = rw (c.in-Helping.is, c.in-Helping-later.is)

pub returns-in-Neither-later : goal.returns-in-Neither-later
unfolding followed
returns-in-Neither-later c = rw (c.in-Helping.is, c.in-Neither-later.is)

pub returns-in-Neither : goal.returns-in-Neither
unfolding followed
returns-in-Neither c = search rules
