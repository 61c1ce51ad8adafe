-- a history as data
pub mod Logs
-- the calls of a group, as far as its history speaks of them
pub mod Calls
-- the plain store at each place of a history
pub mod Places
-- legal histories: what acts and openings are in terms of the plain store
pub mod Legal
-- the shape of a history: what its entries show of one another and of the calls, whatever the
-- stores were
pub mod Shapes
-- answers that fit: what an answer tells is what the plain store tells at the answer's place
pub mod Fits
-- how much the entries of a history weigh: 64 and the bytes that each carries
pub mod Weights
-- what follows from the definitions, in plain words
pub mod Laws
-- what private steps promise each other
pub mod Steps
