mod Updates
mod Images
mod Findings
