-- The definitions, in document 01's order, by its sections.
-- What all of them use: lists.
pub mod Lists
-- "The three sheets": their rows, and what they mean.
pub mod Tag
pub mod Rows
pub mod Meaning
-- "How a derivation runs", with what questions are and tell, and the questions 25 to 33 in `Run`; `Relevance` is Req 04 of document 02.
pub mod State
pub mod Relevance
pub mod Questions
pub mod Network
pub mod Run
pub mod Join
-- "Questions, and the number when the answer is no", with the sizes of each sheet from "The three sheets"; `JoinSheet` is Req 02 of document 02,
-- `Listing` is Req 03.
pub mod RowQuestions
pub mod Shop
pub mod Order
pub mod Trace
pub mod Replay
pub mod Lent
pub mod Search
pub mod JoinSheet
pub mod Listing
-- "The three sheets" once more, of the meaning: the sheets written out, and their rules as propositions.
pub mod Written
-- Source document 000, and the statements that are proved.
pub mod Definition1
pub mod Readings
pub mod Demands
-- "One core of sixty centimetres": the marked cases; and a case for each question but 27; then of Req 02 to Req 04.
pub mod Cases
pub mod QuestionCases
pub mod JoinCases
pub mod ListingCases
pub mod RelevanceCases
