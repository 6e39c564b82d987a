mod Building
mod Fronts
mod Producing
mod Quotations
mod Ruling
mod Walking
mod WalkingOperands
mod Texts
